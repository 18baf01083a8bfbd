-- Filling: its definitions first, then the laws about them.

-- What is computed.
pub mod Fill
-- What is known of the work area on the way, and what the functions ask for.
pub mod Next
pub mod Recall
pub mod Run
pub mod laws
