pub mod Conflicting
pub mod Finding
mod Equally
mod Staying
