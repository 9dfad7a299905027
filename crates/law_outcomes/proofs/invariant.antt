pub mod Copies
pub mod Gone
pub mod Edits
pub mod Older
pub mod Law
