pub mod OwnIds
