pub mod Talking
pub mod Turned
