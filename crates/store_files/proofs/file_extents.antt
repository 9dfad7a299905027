pub mod Shown
pub mod Updated
pub mod Planned
pub mod Told
