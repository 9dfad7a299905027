pub mod Lined
pub mod Came
pub mod Bound
pub mod Accepted
