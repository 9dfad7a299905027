pub mod Lines
pub mod Passage
pub mod Serving
