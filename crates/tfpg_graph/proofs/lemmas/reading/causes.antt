-- Which cause a line has, and where it has none.
pub mod Names
pub mod NamedModes
pub mod NewModes
pub mod DeclaredNames
pub mod NumberCauses
pub mod WithoutCause
pub mod NoCause
pub mod Judged
pub mod LineJudged
pub mod CauseAt
pub mod CausedSaid
pub mod CausedTurns
pub mod PartAfter
