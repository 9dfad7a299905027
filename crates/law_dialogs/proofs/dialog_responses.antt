pub mod Asked
pub mod Ends
pub mod Going
pub mod Taken
