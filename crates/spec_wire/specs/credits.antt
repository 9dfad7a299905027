pub mod Calls
pub mod Exchange
pub mod Ids
pub mod Purse
pub mod Window
