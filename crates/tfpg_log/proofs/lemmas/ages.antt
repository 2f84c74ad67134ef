-- How long a failure has been on its way over an edge, by the windows of the edge.
pub mod Ages
pub mod WindowAges
pub mod FirstAges
pub mod JointAges
