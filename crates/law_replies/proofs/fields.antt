pub mod Paths
pub mod Changes
pub mod Written
pub mod Verdicts
pub mod Requests
pub mod Runs
pub mod Names
pub mod Told
