pub mod memory_server
pub mod Tests
pub mod Settings
pub mod Channels
pub mod Places
pub mod Shown
pub mod results
