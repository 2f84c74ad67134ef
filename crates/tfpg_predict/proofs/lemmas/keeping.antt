pub mod SameKept
pub mod KeptItems
pub mod KeptEventsKeep
pub mod KeptOrder
pub mod KeptCount
pub mod NextEvents
