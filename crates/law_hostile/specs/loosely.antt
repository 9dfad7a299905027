pub mod LooseRuns
pub mod LooseRows
pub mod LooseSessions
