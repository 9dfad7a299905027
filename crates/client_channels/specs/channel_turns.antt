pub mod Asides
pub mod Links
pub mod Passing
pub mod Rounds
pub mod Sealings
pub mod Sharing
pub mod Sides
pub mod Turning
