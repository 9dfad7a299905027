pub mod Going
pub mod Opened
pub mod Room
