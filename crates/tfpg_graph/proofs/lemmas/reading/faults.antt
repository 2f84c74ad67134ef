-- The first fault of a whole text.
pub mod FirstFaults
pub mod OneFault
pub mod NoFault
pub mod CleanRuns
pub mod WholeText
pub mod EachText
