pub mod held
pub mod wait_steps
pub mod wait_runs
pub mod out_steps
pub mod examples
