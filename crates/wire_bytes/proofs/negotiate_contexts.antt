mod Firsts
pub mod Walk
pub mod Spelling
