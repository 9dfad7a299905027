pub mod Shown
mod Written
