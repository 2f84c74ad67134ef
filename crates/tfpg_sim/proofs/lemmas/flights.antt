-- When the failure arrives over the edges, by flights.
pub mod SplitSpans
pub mod ReachedTimes
pub mod Landing
pub mod ArrivingFlights
