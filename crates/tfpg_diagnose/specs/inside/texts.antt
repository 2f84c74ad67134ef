-- How the faults of the layers below become those of calls over texts, a new engine, what a session keeps, and why lines are not
-- accepted.
pub mod Faults
pub mod Opened
pub mod SessionKeeps
pub mod Judged
