pub mod Saying
pub mod Joining
