-- Books: of a chapter's folio only the parity matters, and the best book follows from the best chapters that close on each side.
pub mod Folios
pub mod Closing
pub mod Backward
pub mod Turns
pub mod Routes
pub mod Through
pub mod Choosing
pub mod Theorem
pub mod Best
pub mod Course
pub mod One
pub mod Binding
pub mod Engine
