pub mod Fitting
pub mod Lawful
pub mod Steps
