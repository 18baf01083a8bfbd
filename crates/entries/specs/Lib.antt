-- The entries of a place: definitions first, then the laws about them.

-- What is computed.
pub mod Fill
-- What is known of the work area on the way, and what the functions ask for.
pub mod Filled
pub mod Next
pub mod Run
pub mod laws
