pub mod Fields
pub mod Fitting
pub mod Pieces
pub mod Views
