pub mod Waiters
pub mod Outs
