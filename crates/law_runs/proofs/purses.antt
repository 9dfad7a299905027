pub mod Windows
pub mod Ends
pub mod Still
pub mod Runs
