pub mod Compacts
