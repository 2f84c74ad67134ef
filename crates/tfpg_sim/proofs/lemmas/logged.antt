-- The log of a simulation: its events, that its lines are accepted, and that the trace explains it.
pub mod AlarmTimes
pub mod PutAlarms
pub mod NamedEvents
pub mod LoggedEvents
pub mod ShownEvents
pub mod AcceptedLines
pub mod ExplainedLogs
