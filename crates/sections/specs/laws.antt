-- The laws of folding order.
pub mod Size
pub mod Table
pub mod Copying
