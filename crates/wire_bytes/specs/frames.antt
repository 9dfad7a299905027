pub mod Long
pub mod Next
