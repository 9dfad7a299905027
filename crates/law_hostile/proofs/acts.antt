pub mod Faulty
pub mod Frames
