pub mod Reopened
