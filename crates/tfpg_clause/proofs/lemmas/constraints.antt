-- What single constraints say, and the facts.
pub mod BoundsMet
pub mod CycleNotNegative
pub mod OneLowOneHigh
