pub mod Spot
pub mod Pair
pub mod Widths
