pub mod Nothing
pub mod Calls
pub mod Bodies
pub mod SnapshotBodies
pub mod ReadOver
mod Sound
pub mod SoFar
pub mod Openings
pub mod Filled
