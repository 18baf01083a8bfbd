-- The laws of the forecast.
pub mod Together
pub mod Ceiling
pub mod Forecast
