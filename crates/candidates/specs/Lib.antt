-- The starts that a page may have: the definitions first, then the laws about them.

-- What is computed, for any number of float streams.
pub mod Better
pub mod Search
pub mod Fronts
-- What the best of several starts is, and what a page has beside its lines.
pub mod Choice
pub mod Beside
-- A galley that was read: what the functions ask for, and what they leave.
pub mod Read
pub mod Cells
pub mod Last
