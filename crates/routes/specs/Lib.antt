-- The routes as the code keeps them, what each folio offers the next, one chapter more, and their laws.
pub mod Room
pub mod Routes
pub mod Offer
pub mod Tables
pub mod Next
pub mod laws
