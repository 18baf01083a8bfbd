-- The demands that rest on others of specs/.
pub mod FirstDemand
pub mod SecondDemand
pub mod Limit
pub mod Waiting
pub mod Opening
pub mod Loosening
pub mod LooseningWhole
pub mod Lost
pub mod Books
pub mod Outside
pub mod Own
