-- What the public contracts say.
pub mod Outside
pub mod Memory
pub mod Lines
pub mod Words
pub mod TextLine
pub mod Append
pub mod Set
pub mod SetBits
pub mod Terms
pub mod Hypothesis
pub mod NodeSet
pub mod Trace
pub mod Constraint
pub mod ConstraintCycle
pub mod Bounds
pub mod Choice
pub mod Trials
-- What the code and its proofs need besides. No public clause reaches it.
pub mod inside
