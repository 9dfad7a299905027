pub mod Chains
pub mod OneContext
pub mod ContextChain
pub mod Gathered
pub mod OneEntry
pub mod EntryChain
