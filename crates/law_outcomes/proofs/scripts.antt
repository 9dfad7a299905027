pub mod Paired
pub mod Quiet
pub mod Loops
pub mod Due
pub mod Refusals
pub mod Settling
pub mod Scripts
