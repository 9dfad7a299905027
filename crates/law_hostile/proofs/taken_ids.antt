pub mod Times
pub mod Spending
pub mod Ends
pub mod Runs
pub mod Headers
pub mod Once
