pub mod Holding
pub mod Made
