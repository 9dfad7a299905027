pub mod Columns
pub mod Losing
