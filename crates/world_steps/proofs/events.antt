pub mod Coming
pub mod Unmet
mod Watched
