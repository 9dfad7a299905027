pub mod share_modes
pub mod channel_sequence
pub mod lock_replay
pub mod open_index
pub mod open_table
