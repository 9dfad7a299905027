pub mod Meaning
pub mod Hearing
