pub mod OwnDialogs
