pub mod Changed
pub mod Kept
pub mod Known
pub mod Locks
pub mod Moved
pub mod Roomy
pub mod Slots
