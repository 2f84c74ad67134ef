-- What the public contracts say of input and output.
pub mod Streams
pub mod Faults
pub mod Writing
pub mod Outputs
-- Which line of a text is at fault.
pub mod FaultyLine
