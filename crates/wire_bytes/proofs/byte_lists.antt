pub mod Endian
pub mod Filling
pub mod Units
