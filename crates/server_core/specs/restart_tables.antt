pub mod Restart
pub mod Found
