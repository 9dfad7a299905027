pub mod Parts
pub mod Headers
pub mod Texts
pub mod Rooms
pub mod Finishing
pub mod Gathering
pub mod Sealings
pub mod Placing
