-- What calls over texts in memory come to: opening a diagnosis, a report, judging one, and a session.
pub mod Opening
pub mod Reports
pub mod Checks
pub mod Latest
pub mod Sessions
