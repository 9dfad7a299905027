pub mod Behind
pub mod Apart
pub mod Early
