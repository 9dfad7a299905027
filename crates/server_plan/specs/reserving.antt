pub mod Readies
pub mod Logons
