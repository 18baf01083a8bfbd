-- The starts of one earlier column weighed: what the functions ask for and what holds on the way first, then the laws about it.
pub mod Bound
pub mod Sweep
pub mod Swept
