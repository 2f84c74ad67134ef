-- The lines of a log: what they say, which are accepted, and the log that they make.
pub mod LogLines
pub mod Judgements
pub mod Accepting
pub mod WrittenLines
pub mod LogsOfLines
pub mod AcceptedEvents
pub mod AcceptedLines
