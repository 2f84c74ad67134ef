-- The lemmas of each part of the crate, in a folder named like that of the source.
pub mod block_reader
pub mod laws
pub mod reading
pub mod WrittenMembers
pub mod MemberWords
pub mod SetWords
pub mod WrittenLines
pub mod CleanLines
pub mod SectionLines
pub mod BlockLines
pub mod ActivationLines
pub mod EqualTexts
