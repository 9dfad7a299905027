pub mod Said
pub mod Played
pub mod Ended
pub mod Summed
pub mod Written
