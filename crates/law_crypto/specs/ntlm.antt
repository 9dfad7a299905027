pub mod Fitting
pub mod Own
