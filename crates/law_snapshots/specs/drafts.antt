pub mod Folder
pub mod Cost
