-- The laws of filling.
pub mod Fill
pub mod Over
pub mod Still
pub mod First
pub mod Skip
pub mod Kept
pub mod Column
pub mod Recall
pub mod Columns
