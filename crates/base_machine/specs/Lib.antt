pub mod FileTime
