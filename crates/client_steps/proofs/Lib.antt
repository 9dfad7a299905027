pub mod Joined
pub mod Rest
pub mod Stepped
