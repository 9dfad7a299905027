pub mod Lists
pub mod OfConnections
pub mod OfSessions
pub mod OfKinds
pub mod OfCreates
pub mod OfLocks
pub mod OfNewest
