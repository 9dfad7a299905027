pub mod Few
pub mod Rooms
pub mod Takes
pub mod Serves
pub mod Worlds
pub mod Still
pub mod Runs
