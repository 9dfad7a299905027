pub mod Spelled
pub mod Over
mod Stands
pub mod Starting
