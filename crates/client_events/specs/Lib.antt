pub mod event_calls
pub mod played_client
pub mod world_law
