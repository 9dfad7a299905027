pub mod Ascending
pub mod GivenUp
