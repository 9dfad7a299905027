pub mod Fixed
pub mod Fronts
pub mod Judging
pub mod Responses
pub mod Views
