pub mod sessions
pub mod commands
pub mod runs
pub mod connections
pub mod settings
pub mod repeats
