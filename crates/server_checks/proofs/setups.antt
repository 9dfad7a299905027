pub mod Same
pub mod Checks
pub mod Shown
pub mod Steps
