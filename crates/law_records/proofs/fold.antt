pub mod Numbers
pub mod Created
pub mod Swept
pub mod Marks
