pub mod Keeping
pub mod Agreeing
