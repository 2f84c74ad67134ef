-- Steps are right after those before, and no name stands twice on a path.
pub mod DistinctNames
pub mod PathAfter
pub mod RightSteps
pub mod StepsAppended
