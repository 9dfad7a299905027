pub mod commands
pub mod fitting
pub mod lengths
