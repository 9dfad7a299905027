pub mod Unforged
