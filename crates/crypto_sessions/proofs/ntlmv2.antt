pub mod Answered
pub mod Forms
pub mod Info
pub mod Sizes
pub mod Texts
pub mod Named
pub mod Verdicts
pub mod Walks
