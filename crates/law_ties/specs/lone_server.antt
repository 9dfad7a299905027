pub mod Own
pub mod Single
