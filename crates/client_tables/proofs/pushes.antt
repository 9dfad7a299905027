pub mod Picked
pub mod Sent
