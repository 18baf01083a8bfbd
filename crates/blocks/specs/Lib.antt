-- The heights of a page, block by block, and the counts of what is placed: definitions first, then the laws about them.
pub mod Heights
pub mod Counts
pub mod laws
