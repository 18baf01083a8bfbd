-- Marking, in the order of reading: definitions first, then the laws about them.
pub mod Mark
pub mod Parts
pub mod Judged
pub mod laws
