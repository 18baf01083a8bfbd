-- The laws of a search with limits.
pub mod Sought
