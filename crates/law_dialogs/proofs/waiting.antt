pub mod Due
pub mod Alone
pub mod Apart
