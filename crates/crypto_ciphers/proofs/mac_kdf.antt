pub mod Absorbing
pub mod Derivations
pub mod Keys
pub mod Steps
pub mod Streams
