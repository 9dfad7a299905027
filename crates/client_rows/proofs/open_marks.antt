pub mod Waits
pub mod Covered
pub mod New
pub mod Raised
pub mod Indexed
pub mod Whole
pub mod Lower
