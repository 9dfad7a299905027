pub mod Lacking
pub mod Names
