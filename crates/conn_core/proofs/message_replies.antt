pub mod Saids
pub mod Parts
pub mod Sounds
