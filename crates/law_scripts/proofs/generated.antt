pub mod Bytes
pub mod Numbers
pub mod Readers
pub mod Pieces
pub mod Lines
pub mod Texts
pub mod Scripts
pub mod Made
