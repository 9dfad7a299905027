pub mod Sessions
pub mod Kinds
pub mod Dialogs
