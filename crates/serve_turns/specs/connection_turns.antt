pub mod Ending
pub mod Turning
pub mod Frames
pub mod Messages
pub mod Passing
pub mod Serving
pub mod Due
pub mod Drawing
