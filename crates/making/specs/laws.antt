-- The laws of making.
pub mod Made
pub mod Nothing
