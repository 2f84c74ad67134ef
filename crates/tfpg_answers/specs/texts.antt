-- What calls over texts in memory come to: questions, forecasts, and the verdict on a map.
pub mod AskedTexts
pub mod PredictedTexts
pub mod ExplainedTexts
