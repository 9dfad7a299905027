pub mod Told
pub mod Files
pub mod Opens
pub mod Whole
