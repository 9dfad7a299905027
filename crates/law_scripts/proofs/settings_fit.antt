pub mod Readings
pub mod Texts
pub mod Words
pub mod Lines
pub mod Settings
pub mod Counts
