pub mod Alike
pub mod Exact
