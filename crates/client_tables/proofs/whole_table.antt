pub mod Begun
pub mod Finished
pub mod Losing
pub mod Nothing
pub mod Ready
pub mod Settled
