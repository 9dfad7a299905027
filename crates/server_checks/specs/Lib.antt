pub mod setups
pub mod verdicts
pub mod session_table
pub mod Shown
pub mod Looks
pub mod event_heard
