pub mod Lists
pub mod HeldLemmas
pub mod SetLemmas
pub mod IndexLemmas
pub mod SessionLemmas
