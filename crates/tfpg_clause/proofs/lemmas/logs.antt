-- What stays from a log to a later one, and what lies within an ordered log.
pub mod StaysAllowed
pub mod TimesInRange
pub mod SpanNumbers
