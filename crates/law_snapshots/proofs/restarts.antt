mod Openings
pub mod Sessionless
pub mod Again
