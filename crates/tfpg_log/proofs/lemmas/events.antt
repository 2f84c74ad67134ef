-- The events of a log, and the index that a log keeps of them.
pub mod Events
pub mod AlarmIndexes
pub mod AlarmEvents
pub mod NodesEvents
pub mod LastQuiets
pub mod SilenceTimes
pub mod LastAlarms
pub mod AlarmIntervals
pub mod SilentNodes
pub mod Order
pub mod Indexes
pub mod PastKept
pub mod ShownByLookUp
