pub mod Text
pub mod Ordered
