-- The turns of a list are what its pages cost, and making finds the least.
pub mod Waiting
pub mod Pages
pub mod Leaves
pub mod LeafEnds
pub mod Full
pub mod Costs
pub mod Rank
pub mod Bounds
pub mod LeastTurns
