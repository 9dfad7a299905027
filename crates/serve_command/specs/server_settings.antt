pub mod Served
pub mod Settings
pub mod Words
