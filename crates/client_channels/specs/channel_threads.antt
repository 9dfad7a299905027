pub mod Nonces
pub mod Numbers
pub mod Running
pub mod Seating
