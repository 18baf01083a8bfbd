-- The queues of a window's two parts: their definitions first, then the laws about them.
pub mod Queue
pub mod Parts
pub mod Run
