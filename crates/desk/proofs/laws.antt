-- The laws behind the desk.
pub mod Pages
pub mod Held
pub mod Room
pub mod Ends
pub mod Opening
pub mod Sitting
pub mod Stands
pub mod Trying
pub mod Layouts
pub mod Calls
pub mod Opened
