pub mod Requests
pub mod Own
