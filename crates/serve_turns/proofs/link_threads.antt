pub mod Accepting
pub mod Covering
