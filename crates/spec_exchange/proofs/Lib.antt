pub mod Content
pub mod Order
