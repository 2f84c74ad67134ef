-- Questions: which hypotheses a round leaves, and what is asked of them.
pub mod Left
pub mod Asked
