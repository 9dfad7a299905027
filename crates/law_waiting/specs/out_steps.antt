pub mod OutStep
pub mod OutRuns
