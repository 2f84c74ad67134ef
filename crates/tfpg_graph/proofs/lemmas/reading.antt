pub mod saying
pub mod spelling
pub mod causes
pub mod graphs
pub mod faults
