pub mod Tops
pub mod Shown
