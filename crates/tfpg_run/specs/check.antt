-- How `check` ends, and which world is for a check of what a diagnosis wrote.
pub mod Checking
pub mod AfterDiagnosis
