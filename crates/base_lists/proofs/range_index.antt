pub mod Changed
pub mod Listed
