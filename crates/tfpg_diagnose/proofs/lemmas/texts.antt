-- What calls over texts in memory come to, and what a session keeps.
pub mod Opened
pub mod Reported
pub mod Judged
pub mod SessionLines
pub mod RankedFindings
