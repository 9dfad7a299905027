pub mod Samples
pub mod Computed
