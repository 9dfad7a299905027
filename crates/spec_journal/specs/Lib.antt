pub mod Castagnoli
pub mod Vectors
pub mod Forms
