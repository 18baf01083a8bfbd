-- Openings: how they are judged, and the laws about it.
pub mod Opening
pub mod laws
