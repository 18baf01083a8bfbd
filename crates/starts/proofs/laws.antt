-- The laws of starts.
pub mod Floats
pub mod Row
pub mod Rows
