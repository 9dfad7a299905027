pub mod Agreeing
pub mod Fitting
