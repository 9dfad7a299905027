pub mod Clashing
pub mod Elements
pub mod Halves
pub mod Heard
pub mod Leaf
pub mod Unless
