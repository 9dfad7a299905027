pub mod Replying
pub mod Joined
pub mod Adding
pub mod Walking
