pub mod Asking
pub mod Settled
