-- The laws of passes.
pub mod Sweep
pub mod Lending
pub mod Fronts
pub mod Cells
pub mod Bound
pub mod Past
pub mod Look
pub mod Pass
pub mod Stop
pub mod Begin
pub mod Side
pub mod Sweeping
