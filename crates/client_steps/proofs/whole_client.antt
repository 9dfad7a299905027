pub mod Around
pub mod Begun
pub mod FirstRow
pub mod Higher
pub mod StillAsked
pub mod Taken
