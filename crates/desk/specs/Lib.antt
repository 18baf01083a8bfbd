-- The desk, in the order of reading: the calls, a sitting by these alone, a desk's list, what each call leaves and answers, and the laws.
pub mod Calls
pub mod Sitting
pub mod Case
pub mod Pages
pub mod Opening
pub mod Desk
pub mod Layouts
pub mod Held
pub mod After
pub mod Promised
