-- What the public contracts say.
pub mod Script
pub mod ScriptFaults
pub mod Draws
pub mod Simulation
pub mod SimulatedLog
pub mod Simulated
pub mod Generated
-- What the code and its proofs need besides. No public clause reaches it.
pub mod inside
