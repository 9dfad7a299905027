pub mod GivenUp
pub mod Going
pub mod Settled
pub mod Unsettled
