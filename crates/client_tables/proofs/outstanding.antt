pub mod Outstanding
pub mod Swept
