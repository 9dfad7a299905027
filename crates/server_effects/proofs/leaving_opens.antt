mod Files
pub mod Each
mod Lost
mod Steps
