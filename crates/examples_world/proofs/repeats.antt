pub mod PutUp
pub mod Twice
pub mod Redirected
pub mod Secrets
pub mod Misread
