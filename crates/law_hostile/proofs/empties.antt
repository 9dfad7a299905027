pub mod Calm
pub mod Runs
