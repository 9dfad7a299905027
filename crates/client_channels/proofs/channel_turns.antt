mod Applied
mod Hearing
mod Linking
mod Rounding
pub mod Sealed
pub mod Sealing
mod Stepping
