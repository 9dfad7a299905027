pub mod ciphers
pub mod sessions
pub mod tokens
