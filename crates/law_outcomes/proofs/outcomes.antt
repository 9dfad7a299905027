pub mod Reading
pub mod Waiting
pub mod Answers
pub mod Causes
