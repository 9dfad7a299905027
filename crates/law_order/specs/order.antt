pub mod Newest
pub mod Contents
