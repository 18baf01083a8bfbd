-- A galley with a first folio put in: its bytes, and the galley that they hold.
pub mod Stating
pub mod Shifted
pub mod Chapters
