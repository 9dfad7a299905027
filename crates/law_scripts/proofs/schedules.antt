pub mod Meeting
pub mod Endings
pub mod Scripts
