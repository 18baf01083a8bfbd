-- A galley's bytes, in the order of reading: definitions first, then the laws about them.
pub mod Word
pub mod Range
pub mod Place
pub mod Record
pub mod Whole
pub mod Block
pub mod Sound
pub mod Write
pub mod Model
pub mod Alike
mod CaseA
