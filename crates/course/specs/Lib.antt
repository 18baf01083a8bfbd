-- The chapters made along the best route: its folios, one chapter, then what all chapters come to.
pub mod Trace
pub mod Chapter
pub mod Weighed
pub mod Course
pub mod laws
