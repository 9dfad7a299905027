pub mod Elements
pub mod Sizes
pub mod Values
pub mod Bodies
