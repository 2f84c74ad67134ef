-- What is asked of a diagnosis, the forecasts that were appended, what is known of a verdict, and the faults of calls over texts.
pub mod Asked
pub mod Forecasting
pub mod Verdicts
pub mod texts
