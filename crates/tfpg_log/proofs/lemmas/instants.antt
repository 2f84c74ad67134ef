-- The spans and windows as runs of instants.
pub mod MaximalRuns
pub mod SpanRuns
pub mod WindowRuns
pub mod WindowInstants
pub mod JointWindows
pub mod SameModes
