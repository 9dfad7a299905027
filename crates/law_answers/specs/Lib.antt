pub mod completeness
pub mod answers
pub mod waiting_dialogs
pub mod sealing_logons
pub mod statuses
