pub mod Hands
pub mod TakenIds
pub mod TakenOnce
