pub mod Lengths
pub mod Firsts
pub mod Joining
pub mod Links
pub mod Requests
pub mod Replies
