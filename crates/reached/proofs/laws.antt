-- The laws of what is reached.
pub mod Ring
pub mod Look
pub mod Recall
