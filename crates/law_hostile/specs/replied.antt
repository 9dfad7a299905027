pub mod Replies
pub mod Taken
pub mod Told
pub mod Awaited
