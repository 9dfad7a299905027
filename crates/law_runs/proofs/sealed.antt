pub mod Spelled
pub mod Sent
pub mod Takes
pub mod Serves
pub mod Runs
