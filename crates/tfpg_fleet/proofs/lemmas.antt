pub mod Addressed
pub mod LinesFor
pub mod FleetCalls
pub mod FleetTells
pub mod SaidTo
pub mod OneLog
pub mod Excess
pub mod RefusedLines
