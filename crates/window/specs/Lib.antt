-- The window of starting lines: its definitions first, then the laws about them.
pub mod First
pub mod Rows
pub mod Sums
pub mod Slide
pub mod Windows
pub mod Run
pub mod laws
