pub mod Swapping
pub mod Listing
