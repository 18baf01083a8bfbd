-- Making: what is computed, then the laws about it.
pub mod Make
pub mod After
pub mod laws
