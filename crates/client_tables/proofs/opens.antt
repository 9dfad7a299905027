pub mod Columns
pub mod Keeping
pub mod Longer
pub mod Submitted
pub mod Joined
pub mod Settled
pub mod Secure
