pub mod Watching
pub mod Listed
