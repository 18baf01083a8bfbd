pub mod Words
pub mod Section
pub mod Forecast
pub mod Book
pub mod Desk
pub mod Calls
