pub mod Scripts
pub mod Servers
pub mod Laws
pub mod Computed
