pub mod acceptance
pub mod dialog_requests
pub mod dialog_responses
pub mod waiting
pub mod runs
