pub mod Forms
pub mod Greetings
pub mod Setups
pub mod Trees
