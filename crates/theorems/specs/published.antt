-- Document 01's rules accept a page list exactly where it is the list of a pagination as the paper has it.
pub mod Fits
pub mod Heights
pub mod Keeping
pub mod Fourth
pub mod Laid
pub mod Places
pub mod OfMap
pub mod Accepted
pub mod Numbers
pub mod White
pub mod Theorem
