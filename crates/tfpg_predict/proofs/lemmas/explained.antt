pub mod ProbeParts
pub mod ProbedTraces
pub mod SameRules
pub mod HeardAll
pub mod KeptFacts
pub mod ProbeTimes
pub mod Equivalence
