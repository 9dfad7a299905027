pub mod Lines
pub mod Sending
pub mod Pushed
pub mod Opened
