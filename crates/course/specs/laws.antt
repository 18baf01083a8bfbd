-- The laws of the course of a book.
pub mod Trace
pub mod Chapter
pub mod Words
pub mod Course
pub mod Making
pub mod Room
pub mod Weighed
pub mod Along
