pub mod Tables
pub mod Turns
pub mod Frames
pub mod Once
