pub mod Alone
pub mod Owning
