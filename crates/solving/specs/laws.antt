-- The laws of the best list and of where it begins.
pub mod Last
pub mod Shown
pub mod Seen
pub mod Right
pub mod Copied
pub mod Begun
pub mod Back
pub mod Written
pub mod Tabled
pub mod Solved
