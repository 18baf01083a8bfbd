-- The meaning of making a book, what is known between its steps, and the laws.
pub mod Make
pub mod Bind
pub mod laws
