pub mod Lemmas
pub mod FileLemmas
pub mod OpenLemmas
pub mod WholeLemmas
