pub mod Given
pub mod Rising
pub mod Walking
