pub mod Meant
pub mod Heard
