-- Folding order: the formulas, how pages stand, the answer to a size and the copying; then the laws about them.
pub mod Folding
pub mod Standing
pub mod Answer
pub mod Copying
pub mod laws
