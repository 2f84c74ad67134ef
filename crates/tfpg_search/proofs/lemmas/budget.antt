-- A measure falls with each step, and a list has all names: so there is a budget that is never spent.
pub mod EventHorizons
pub mod MaximumIncoming
pub mod Measure
pub mod NamesListed
pub mod NeverSpent
