pub mod Awaited
pub mod Headers
