-- The refusals of the reader, declared: a sentence about the bytes for each, the laws, and that reading answers so.
pub mod Declared
pub mod Theorem
