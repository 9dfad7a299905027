pub mod Ends
pub mod Events
pub mod Keyed
pub mod Worked
pub mod Meeting
pub mod Opened
