-- What is reached: the definitions first, then the laws about them.
pub mod Ring
pub mod Look
pub mod Recall
