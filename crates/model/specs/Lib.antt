-- The page model, in the order of reading: definitions first, then the laws about them.
pub mod Gather
pub mod Galley
pub mod Height
pub mod Leaf
pub mod Rules
pub mod Turns
pub mod White
pub mod Answers
pub mod Pagination
pub mod Order
pub mod Best
pub mod Weighed
pub mod Opening
pub mod Loosened
pub mod Book
pub mod laws
