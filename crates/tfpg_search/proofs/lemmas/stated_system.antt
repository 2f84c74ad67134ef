-- Each demand of the system of a leaf stays stated by the reason of its tag.
pub mod CallsKeepReasons
pub mod CycleCloses
pub mod DemandsStayStated
pub mod NewSystemStated
pub mod TagsStay
pub mod ReasonsKept
pub mod KeptAfterCalls
pub mod PicksEntered
