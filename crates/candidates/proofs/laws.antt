-- The laws of the starts that a page may have.
pub mod Choice
pub mod Found
pub mod Priced
pub mod Heights
pub mod Pages
pub mod White
pub mod Columns
pub mod Read
pub mod Lines
pub mod Cells
pub mod Clean
