pub mod Shown
pub mod Kept
pub mod Ready
pub mod Parts
