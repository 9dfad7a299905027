pub mod Placed
pub mod Files
pub mod Carried
pub mod Inherited
pub mod Denied
