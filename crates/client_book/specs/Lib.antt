pub mod Asking
pub mod Beginning
pub mod Configuring
pub mod Reading
pub mod Steps
