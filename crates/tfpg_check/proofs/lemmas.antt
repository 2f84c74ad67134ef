pub mod Progressing
pub mod SameStatuses
pub mod RoundsOfReports
pub mod EqualSayings
pub mod passing
pub mod completeness
pub mod readable
pub mod going_on
pub mod judging
-- What a judge that accepts or refuses a report has shown.
pub mod EarlyEnds
pub mod WholeReports
pub mod FirstLines
