-- How judging the report of the input ends, and that what a diagnosis wrote is accepted.
pub mod AcceptedDiagnoses
