pub mod Epoch
pub mod Bounds
pub mod Low
pub mod LowIds
pub mod Fits
