pub mod Along
pub mod Refusals
