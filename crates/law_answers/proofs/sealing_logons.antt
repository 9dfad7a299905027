pub mod Server
pub mod Checks
pub mod Runs
