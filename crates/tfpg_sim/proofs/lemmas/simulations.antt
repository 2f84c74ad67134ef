-- The trace of a simulation: that it is the only one, and keeps the rules.
pub mod DrawLists
pub mod SettledNodes
pub mod WholeRuns
pub mod KeptRules
pub mod SimulatedSets
pub mod OneSimulation
