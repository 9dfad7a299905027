pub mod snapshots
pub mod behind
pub mod restarts
pub mod drafts
pub mod examples
