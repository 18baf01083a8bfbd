-- The laws of the walk back.
pub mod Last
pub mod Walk
pub mod Page
