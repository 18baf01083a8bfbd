-- The laws of heights and of the words of a page.
pub mod Stacked
pub mod Heights
pub mod Counts
