-- What is read of JSON, as the calls that read it return it, and the tokens that are written of data.
pub mod ReadAs
pub mod Tokens
