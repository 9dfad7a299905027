pub mod Equations
pub mod Loops
pub mod Runs
pub mod Counts
pub mod Plain
pub mod Errors
