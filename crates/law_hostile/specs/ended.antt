pub mod EndedSessions
pub mod Requests
pub mod Acceptances
pub mod Orders
