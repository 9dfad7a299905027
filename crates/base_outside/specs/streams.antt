pub mod Disk
pub mod Drafts
pub mod Faults
pub mod Memory
pub mod Steps
