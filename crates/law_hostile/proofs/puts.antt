pub mod Growing
pub mod Requests
pub mod Replies
