pub mod streams
pub mod network
pub mod whole_texts
