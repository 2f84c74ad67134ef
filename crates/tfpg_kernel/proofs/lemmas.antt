pub mod Chained
pub mod FirstBroken
pub mod StepResults
