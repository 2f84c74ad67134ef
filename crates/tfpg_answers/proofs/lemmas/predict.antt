-- Forecasts: what outlooks name, and how forecasts are appended one after another.
pub mod NamedOutlooks
pub mod Appended
pub mod Predictions
