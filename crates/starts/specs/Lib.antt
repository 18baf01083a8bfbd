-- The best start of a page by sweeps: what the functions ask for and what holds on the way first, then the laws about it.
pub mod Sweep
pub mod Swept
