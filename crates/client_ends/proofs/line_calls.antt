pub mod Headers
pub mod Texts
pub mod Replies
pub mod Sent
pub mod Interims
