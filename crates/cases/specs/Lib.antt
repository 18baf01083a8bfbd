-- How a case is written, the table of cases, and the proof that the page model answers as the table says.
pub mod Case
pub mod Galleys
pub mod Starred
pub mod Further
pub mod Requests
pub mod Tables
pub mod Weighings
pub mod Openings
pub mod Whites
pub mod Books
pub mod Meetings
pub mod Table
pub mod Agrees
