-- How far a search goes: definitions first, then the laws about them.
pub mod Sought
pub mod laws
