-- What the greedy pages keep to: enough that nothing overflows.
pub mod Greedy
pub mod laws
