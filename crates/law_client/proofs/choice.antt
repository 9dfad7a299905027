pub mod Pushing
pub mod Picking
