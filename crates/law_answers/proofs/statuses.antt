pub mod Checks
pub mod Keeps
pub mod Waits
pub mod Runs
pub mod Opening
pub mod Creates
