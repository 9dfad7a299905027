pub mod Kept
mod Steps
mod Beside
mod Rules
