-- The laws of a chapter's table.
pub mod Opened
pub mod Chapter
pub mod Later
pub mod Parting
pub mod Pairs
