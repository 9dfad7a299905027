pub mod Counting
pub mod Lining
pub mod Lined
