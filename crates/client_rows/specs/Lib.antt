pub mod operation_rows
pub mod open_marks
pub mod Shown
pub mod lock_slots
pub mod session_state
