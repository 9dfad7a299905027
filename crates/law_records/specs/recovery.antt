pub mod Recovers
pub mod Restarted
