pub mod Ended
pub mod Listing
