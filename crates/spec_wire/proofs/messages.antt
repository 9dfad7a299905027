pub mod Numbers
pub mod ContextEnds
pub mod Walk
