pub mod Asked
pub mod Going
pub mod Composed
