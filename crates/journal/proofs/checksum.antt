pub mod Steps
mod Entries
pub mod Eight
