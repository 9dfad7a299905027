pub mod Moved
pub mod Hashed
