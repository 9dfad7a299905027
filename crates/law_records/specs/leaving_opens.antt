pub mod Since
pub mod Out
