pub mod Freeing
pub mod Tables
pub mod Showing
pub mod Staying
pub mod Used
