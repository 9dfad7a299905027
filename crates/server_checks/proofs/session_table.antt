pub mod Rows
pub mod Whole
pub mod Kept
pub mod Counted
pub mod Breaks
