pub mod Chain
pub mod Choice
pub mod Derivation
pub mod Nonces
pub mod Sealing
pub mod Signing
