pub mod counters
pub mod courses
pub mod fields
pub mod any_state
pub mod replies
