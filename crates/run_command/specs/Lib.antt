pub mod Asking
pub mod Listing
pub mod MadeFiles
pub mod Running
pub mod Telling
pub mod Complete
