pub mod OwnSetups
