-- The laws behind the heights of a page under way: its next block, and its heights with it.
pub mod Next
pub mod Heights
