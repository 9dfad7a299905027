pub mod Bare
pub mod Logs
pub mod Trees
