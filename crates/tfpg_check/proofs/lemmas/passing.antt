-- What passes each test is right: a round that passes is a round of the report.
pub mod DecidedParts
pub mod EachReach
pub mod OneForEach
pub mod ByNumber
pub mod StepsSoFar
pub mod PartSteps
pub mod ReadFindings
pub mod OneStatus
pub mod RightFindings
pub mod NamedFindings
pub mod RightCounts
pub mod RightLines
pub mod RightRounds
