pub mod Known
pub mod Locks
pub mod Opens
pub mod Places
