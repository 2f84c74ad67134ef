-- The text of a map: what spells one, and what is written.
pub mod Spelling
pub mod MapText
pub mod InputMap
-- What the code and its proofs need besides. No public clause reaches it.
pub mod inside
