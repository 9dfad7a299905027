pub mod Fronts
pub mod InStep
pub mod Links
pub mod Own
pub mod Taken
