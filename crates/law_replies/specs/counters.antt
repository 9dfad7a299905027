pub mod Bounds
pub mod Low
pub mod Fits
