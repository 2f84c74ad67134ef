-- Why a trace explains the probed log where it explains the continued one.
pub mod explained
-- Why the kept events say what the log says.
pub mod keeping
pub mod Tables
pub mod ProbeNames
pub mod AsProbed
pub mod Making
pub mod Searching
pub mod Halving
