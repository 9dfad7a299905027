pub mod Onto
pub mod Stood
