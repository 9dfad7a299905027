pub mod Standing
pub mod Told
pub mod One
pub mod Again
pub mod Walk
pub mod Sizes
pub mod Writable
