pub mod Made
pub mod Hints
pub mod Guids
pub mod Dialects
pub mod Responses
pub mod Hellos
