-- The laws of stops and prices.
pub mod Price
