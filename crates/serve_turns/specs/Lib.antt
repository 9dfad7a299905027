pub mod shared_book
pub mod link_serving
pub mod event_book
pub mod connection_turns
pub mod link_threads
