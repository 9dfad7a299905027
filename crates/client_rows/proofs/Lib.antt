pub mod Showing
pub mod Moving
pub mod Keeping
