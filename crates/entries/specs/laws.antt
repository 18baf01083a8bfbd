-- The laws of entries.
pub mod Entered
pub mod Fill
pub mod Price
pub mod Costs
pub mod Queues
pub mod Own
pub mod NewEntry
pub mod Before
pub mod Side
pub mod Sides
