-- What the code and its proofs need besides. No public clause reaches it.
pub mod Slots
pub mod NewFindings
pub mod SlotWork
pub mod RankedKeys
pub mod StatusCounts
pub mod TreeLaws
pub mod Inquiries
