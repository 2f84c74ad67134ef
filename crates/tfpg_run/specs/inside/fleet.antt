-- The answers to a stream under way.
pub mod UnderWay
