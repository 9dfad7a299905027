pub mod Accepted
pub mod Covering
