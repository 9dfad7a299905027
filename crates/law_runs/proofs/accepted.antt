pub mod Minds
pub mod Takes
pub mod Serves
pub mod Runs
