-- What the public contracts say.
pub mod RoundOf
pub mod Findings
