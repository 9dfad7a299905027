pub mod Sharing
pub mod Locking
pub mod Answers
