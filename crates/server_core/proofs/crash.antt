mod Behind
pub mod Over
