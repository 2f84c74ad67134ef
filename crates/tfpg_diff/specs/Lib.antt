-- What the public contracts say.
pub mod VariableBounds
pub mod Demands
pub mod Solution
pub mod Cycle
pub mod SystemState
pub mod Named
-- What the code and its proofs need besides. No public clause reaches it.
pub mod inside
