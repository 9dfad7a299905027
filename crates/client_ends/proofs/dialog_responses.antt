pub mod Offered
pub mod Hashes
pub mod Greetings
pub mod Setups
