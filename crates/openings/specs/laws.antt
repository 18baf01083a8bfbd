-- The laws behind openings.
pub mod Judged
