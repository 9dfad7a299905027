pub mod Places
pub mod Renewing
pub mod Steps
pub mod History
