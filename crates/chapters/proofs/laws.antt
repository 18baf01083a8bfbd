-- Theorems.
pub mod ReadAs
pub mod Underway
