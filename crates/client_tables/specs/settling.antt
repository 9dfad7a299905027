pub mod GivenUp
pub mod Shown
