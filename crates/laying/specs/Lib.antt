-- The heights of a page under way: definitions first, then the laws about them.
pub mod Heights
pub mod laws
