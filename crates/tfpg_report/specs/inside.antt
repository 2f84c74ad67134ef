-- What the code and its proofs need besides. No public clause reaches it.
pub mod Drafts
pub mod Fitting
pub mod Readers
pub mod Further
pub mod Numbered
pub mod Sections
pub mod LineNames
pub mod Texts
pub mod ReadMembers
pub mod FirstWords
pub mod LinesRead
pub mod WordsRead
