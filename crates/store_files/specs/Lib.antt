pub mod file_extents
pub mod names
pub mod file_tree
