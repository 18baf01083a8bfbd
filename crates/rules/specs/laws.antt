-- The laws of rules and counts.
pub mod Page
pub mod Waiting
pub mod Walked
pub mod Counts
pub mod Sane
