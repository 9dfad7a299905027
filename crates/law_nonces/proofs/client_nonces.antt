pub mod Seals
pub mod Ends
pub mod Dialogs
pub mod Runs
pub mod Untampered
