-- Pages as a graph from any origin: ways are lists of pages, and the optimal way has the least list.
pub mod Graph
pub mod Sides
pub mod Laws
pub mod Ways
pub mod Lists
pub mod Ties
pub mod Theorem
pub mod Opening
pub mod Following
pub mod Best
pub mod LeastAfter
