pub mod tables
pub mod successes
