pub mod negotiation
pub mod server_nonces
pub mod client_nonces
pub mod event_nonces
