pub mod Entries
pub mod Deciding
pub mod Colliding
