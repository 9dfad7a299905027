pub mod Saying
pub mod Owning
pub mod Responses
pub mod Awaiting
