mod Back
pub mod Shown
mod Written
