pub mod Kept
pub mod SoFar
pub mod Stepping
pub mod Told
pub mod Rounds
pub mod Shown
pub mod Begun
pub mod Settled
