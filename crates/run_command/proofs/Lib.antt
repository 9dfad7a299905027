pub mod Ended
pub mod Gone
pub mod Listed
pub mod Made
pub mod Reached
pub mod Taken
