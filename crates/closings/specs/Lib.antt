-- One chapter of a book, and the laws of its table.
pub mod Chapter
pub mod laws
