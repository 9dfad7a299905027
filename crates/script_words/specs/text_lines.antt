pub mod Script
pub mod Views
pub mod Progress
pub mod Settings
