pub mod wire_facts
pub mod events
pub mod requests
pub mod channel_numbers
pub mod lone_server
