-- The laws of the queues.
pub mod Run
pub mod Held
pub mod Pushed
pub mod Front
pub mod Parts
pub mod White
