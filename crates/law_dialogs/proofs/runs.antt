pub mod Supplied
pub mod Events
pub mod Runs
