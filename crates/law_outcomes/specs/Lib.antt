pub mod invariant
pub mod refusals
pub mod outcomes
pub mod scripts
