pub mod classes
pub mod info_messages
