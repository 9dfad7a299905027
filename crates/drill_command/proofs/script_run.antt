pub mod Driven
pub mod Begun
