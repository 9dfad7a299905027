pub mod Halves
mod InPlace
mod Repeats
pub mod Roles
