pub mod Busy
pub mod Heard
pub mod Serving
pub mod Law
