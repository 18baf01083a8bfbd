-- Definitions that the laws of proofs/laws are about, and that definitions of other crates cite.
pub mod Rules
pub mod Judge
pub mod Words
pub mod Lists
pub mod White
pub mod Boxes
