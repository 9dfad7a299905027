pub mod Added
pub mod Ended
