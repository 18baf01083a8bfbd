-- Graphs of states and right tables, the principle of optimality, and a table filled entry by entry.
pub mod Graph
pub mod Cell
pub mod Theorem
pub mod Storing
