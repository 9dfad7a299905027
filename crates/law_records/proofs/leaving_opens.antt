pub mod Opens
pub mod Entries
pub mod Left
pub mod All
pub mod Ended
pub mod Full
pub mod Out
