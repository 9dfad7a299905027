pub mod Tables
pub mod Seals
