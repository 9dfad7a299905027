pub mod Contexts
pub mod Halves
pub mod Joined
pub mod Listed
pub mod Refused
pub mod Sizes
