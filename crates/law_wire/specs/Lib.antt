pub mod messages
pub mod info
pub mod credits
