pub use Rattle.tfpg_base.specs.Words
pub use Rattle.tfpg_base.specs.Lines
pub use Rattle.tfpg_base.specs.Set
pub use Rattle.tfpg_base.specs.NodeSet
-- What the public contracts say.
pub mod Graph
pub mod Members
pub mod Valid
pub mod ZeroCycle
pub mod Reach
pub mod Onward
pub mod Text
pub mod Statements
pub mod Declares
pub mod Causes
pub mod Faults
pub mod CauseNames
pub mod Probe
pub mod Laws
-- What the code and its proofs need besides. No public clause reaches it.
pub mod inside
