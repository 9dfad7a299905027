pub mod Decide
pub mod Examples
pub mod Index
pub mod Walk
