pub mod ByFour
pub mod Bytewise
pub mod Chains
pub mod Compared
mod Fronts
mod InPlace
mod Joined
pub mod Linear
mod Sixteen
