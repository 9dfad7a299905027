pub mod Joined
pub mod Keeping
pub mod Rows
