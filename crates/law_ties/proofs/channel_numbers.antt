pub mod Moves
pub mod Quiet
pub mod Dialogs
pub mod Runs
