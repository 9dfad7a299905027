pub mod Laws
pub mod Behind
pub mod Answered
pub mod Lone
