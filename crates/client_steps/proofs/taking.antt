pub mod Allowed
pub mod First
pub mod Grown
pub mod Roomed
