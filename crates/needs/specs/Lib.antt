-- What a galley needs of lent memory, and how much that is at most.
pub mod Needs
pub mod laws
