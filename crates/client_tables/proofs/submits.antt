pub mod Wider
pub mod Taken
pub mod Shapes
