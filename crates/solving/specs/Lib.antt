-- The best list out of a filled work area: definitions first, then the laws about them.

-- The filled work area as the graph of pages has it, and what the functions ask for.
pub mod Shown
pub mod Copied
pub mod Begun
pub mod Back
pub mod Solved
pub mod laws
