-- The pages that are weighed, counted: definitions first, then the laws about them.
pub mod Columns
pub mod Lines
pub mod Known
pub mod Count
