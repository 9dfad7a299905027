pub mod Grammar
pub mod Meaning
pub mod Reading
pub mod Largest
pub mod Examples
