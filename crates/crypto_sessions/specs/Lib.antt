pub mod spnego
pub mod ntlmv2
pub mod session_keys
