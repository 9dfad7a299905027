pub mod Known
pub mod Noted
