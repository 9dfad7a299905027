pub mod PieceLemmas
pub mod NumberLemmas
pub mod TextLemmas
pub mod ByteLimit
