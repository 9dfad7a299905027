pub mod Ended
pub mod Lost
pub mod Unattached
