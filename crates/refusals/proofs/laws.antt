pub mod Told
pub mod State
pub mod Fit
pub mod Fields
pub mod Reach
pub mod Exact
pub mod Total
