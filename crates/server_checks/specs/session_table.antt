pub mod Shown
pub mod Changes
pub mod Steps
pub mod Logons
