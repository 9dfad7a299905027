pub mod Views
pub mod Looks
