-- The walk back: its definitions first, then the laws about them.
pub mod Trace
pub mod Traceable
pub mod laws
