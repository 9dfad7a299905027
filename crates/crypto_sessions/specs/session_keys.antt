pub mod Giving
pub mod Sealing
pub mod Unsealing
