pub mod reading
pub mod values
pub mod reply_shapes
pub mod writing
