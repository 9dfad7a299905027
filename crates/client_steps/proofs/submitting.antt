pub mod All
pub mod Grown
pub mod Listed
pub mod Marks
pub mod Results
