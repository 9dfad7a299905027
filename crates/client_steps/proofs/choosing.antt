pub mod Alike
pub mod Resting
pub mod Slots
