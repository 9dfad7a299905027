pub mod Paid
pub mod Repricing
