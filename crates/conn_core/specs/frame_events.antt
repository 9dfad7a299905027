pub mod Written
pub mod Dealing
pub mod Telling
pub mod SoFar
pub mod Shared
