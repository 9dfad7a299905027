pub mod Bytes
pub mod Greeting
