pub mod Masking
pub mod Unmasking
