pub mod ends
pub mod dialog_requests
pub mod dialog_responses
pub mod response_faults
pub mod line_calls
pub mod dialog_calls
pub mod operation_requests
