pub mod Setups
pub mod Plain
pub mod Found
pub mod Looks
pub mod Unread
pub mod Events
pub mod Asked
