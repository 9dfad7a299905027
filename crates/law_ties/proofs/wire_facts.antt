pub mod Signed
pub mod Ciphers
pub mod Heads
pub mod Commands
pub mod Carried
pub mod Setups
pub mod Greeting
pub mod Greeted
