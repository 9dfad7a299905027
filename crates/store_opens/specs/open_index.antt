pub mod Held
pub mod Keep
pub mod Index
