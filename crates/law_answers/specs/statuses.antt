pub mod Statuses
pub mod Creates
