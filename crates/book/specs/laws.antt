-- The laws of making a book.
pub mod Ending
pub mod Follow
pub mod Route
pub mod Along
pub mod Count
pub mod Bind
pub mod Bound
