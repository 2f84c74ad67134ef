-- The first clause that times violate, by its kind, its node or edge, and its span.
pub mod FirstOfAll
pub mod NameOrder
pub mod ClausesBySpan
pub mod MaySpans
pub mod MustSpans
pub mod MustsBySpan
pub mod MustMet
pub mod Excuses
pub mod ActiveBefore
pub mod WindowsKnown
