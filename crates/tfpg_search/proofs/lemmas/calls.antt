-- What a call of a search finds.
pub mod CopyRepresents
pub mod CutTimes
pub mod FoundInTurn
pub mod NewSearch
pub mod RoundSearched
