pub mod Absorbed
