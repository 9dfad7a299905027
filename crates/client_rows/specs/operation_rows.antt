pub mod Rows
pub mod Chains
pub mod Listed
pub mod Holding
pub mod Choosing
pub mod Moves
pub mod Taking
pub mod Slots
