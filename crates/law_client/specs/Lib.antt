pub mod table
pub mod choice
