pub mod channel_links
pub mod channel_threads
pub mod channel_turns
pub mod Draws
