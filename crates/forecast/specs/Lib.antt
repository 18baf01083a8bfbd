-- The forecast: its definitions first, then the laws about them.
pub mod Forecast
pub mod Ceiling
pub mod Together
pub mod laws
