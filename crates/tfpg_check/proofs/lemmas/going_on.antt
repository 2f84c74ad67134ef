-- What the judge does with the lines of a report, one after the other, is right.
pub mod FirstLines
pub mod BlocksJudged
pub mod ReadOfGraph
pub mod LinesJudged
pub mod StandsOfLines
pub mod NextLines
pub mod PartsHaveSteps
pub mod BlocksGoOn
pub mod RoundsGoOn
pub mod RoundsPass
pub mod LossesGoOn
pub mod JudgedLines
pub mod AtTheEnd
