pub mod Lost
