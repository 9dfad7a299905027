pub mod Units
pub mod Listings
