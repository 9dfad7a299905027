pub mod Readied
pub mod Room
