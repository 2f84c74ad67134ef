-- What a log keeps beside its events, what the code reads, and what is shown by look-ups. No public clause reaches it.
pub mod SpanIndex
pub mod ActiveModes
pub mod NodeEvents
pub mod LogIndex
pub mod LogLine
pub mod ShownByLookUp
