pub mod messages
pub mod journal
pub mod credits
