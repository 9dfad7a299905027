pub mod Components
pub mod Patterns
