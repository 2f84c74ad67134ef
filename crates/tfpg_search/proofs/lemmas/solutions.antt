-- One solution at a leaf is the latest, and it violates one clause first.
pub mod FirstViolation
pub mod GreaterItems
pub mod GreatestList
pub mod LatestSolution
pub mod SolvesDecided
pub mod Unsettled
