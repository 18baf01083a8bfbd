-- Reading a book: what its bytes hold, how the code comes to it, then the laws.
pub mod Book
pub mod Steps
pub mod laws
