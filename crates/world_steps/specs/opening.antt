pub mod Opening
pub mod Putting
