pub mod Held
pub mod Exactly
pub mod Untouched
