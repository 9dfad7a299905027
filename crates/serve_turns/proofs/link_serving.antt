pub mod Overs
pub mod Rolls
