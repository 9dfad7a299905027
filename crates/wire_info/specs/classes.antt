pub mod Views
pub mod Listing
