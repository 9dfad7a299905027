pub mod Linked
pub mod Parts
pub mod Tests
