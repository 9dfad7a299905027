pub mod RepeatRuns
pub mod SignedFor
pub mod HostileNetwork
