-- The laws of the window.
pub mod First
pub mod Rows
pub mod Sums
pub mod Slide
pub mod Windows
