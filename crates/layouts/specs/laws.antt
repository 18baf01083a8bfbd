-- The laws behind the layouts.
pub mod Words
pub mod Names
pub mod Layouts
