pub mod OwnSends
pub mod OwnNumbers
pub mod HeardSends
pub mod ActsSends
pub mod TreeSends
