mod Bytes
pub mod Files
pub mod Opens
pub mod Order
pub mod Ranges
pub mod Tables
pub mod Whole
pub mod Fitting
