pub mod number_set
pub mod price_table
pub mod range_index
pub mod watch_lists
