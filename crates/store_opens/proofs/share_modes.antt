pub mod Taking
pub mod Counting
pub mod Agreed
