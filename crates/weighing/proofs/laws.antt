-- The laws of the count.
pub mod Back
pub mod Columns
pub mod Count
pub mod From
pub mod Known
pub mod Lines
pub mod Pairs
pub mod Part
pub mod Past
