pub mod operations
pub mod outcomes
pub mod commands
