pub mod Places
pub mod Settling
pub mod Running
pub mod Courses
pub mod Answering
pub mod Faults
