pub mod Ahead
pub mod Entry
pub mod Gather
pub mod Group
pub mod Journal
pub mod Read
pub mod Repair
pub mod Rewrite
