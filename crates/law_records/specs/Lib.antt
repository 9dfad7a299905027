pub mod fold
pub mod recovery
pub mod leaving_opens
pub mod effects
