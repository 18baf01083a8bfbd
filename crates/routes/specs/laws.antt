-- The laws of routes and offers.
pub mod Offer
pub mod Folio
pub mod Through
pub mod Tie
pub mod Kept
pub mod Tables
pub mod Arrive
pub mod Next
pub mod Routing
pub mod Book
pub mod Extent
