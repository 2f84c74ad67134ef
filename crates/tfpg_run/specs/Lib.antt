-- What the public contracts say of every command.
pub mod World
pub mod Fetch
pub mod Ends
pub mod EndsOf
pub mod Run
pub mod FilesAsked
pub mod InTime
pub mod Work
pub mod Completeness
pub mod TooMany
-- What they say of each command, in folders named like those of the source.
pub mod diagnose
pub mod explain
pub mod check
pub mod simulate
pub mod generate
pub mod convert
pub mod ask
pub mod fleet
pub mod predict
-- The lines of file panels.
pub mod PanelLines
-- What the code and its proofs need besides. No public clause reaches it.
pub mod inside
