-- What the public contracts say.
pub mod Words
pub mod PanelWords
pub mod Names
pub mod Meaning
pub mod Plans
pub mod CauseNames
-- What the code and its proofs need besides. No public clause reaches it.
pub mod inside
