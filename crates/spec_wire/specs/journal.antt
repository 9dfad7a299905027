pub mod Grammar
pub mod Moments
