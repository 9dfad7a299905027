pub mod Users
pub mod Tokens
pub mod Texts
pub mod Own
