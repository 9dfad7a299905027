pub mod Headers
pub mod Greetings
pub mod Setups
