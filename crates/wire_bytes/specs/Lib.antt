pub mod session_messages
pub mod negotiate_contexts
pub mod file_messages
pub mod create_contexts
pub mod byte_lists
pub mod frames
