-- Rules and counts: their definitions first, then the laws about them.
pub mod Parts
pub mod Waiting
pub mod Sums
pub mod laws
