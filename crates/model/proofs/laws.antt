-- The laws of the page model, each file about the definitions of the file of its name.
pub mod Gather
pub mod Height
pub mod Leaf
pub mod Rules
pub mod Judge
pub mod Words
pub mod Lists
pub mod Valid
pub mod White
pub mod Order
pub mod Best
pub mod Opening
pub mod Boxes
pub mod Together
pub mod Weighed
pub mod Loosened
pub mod Book
