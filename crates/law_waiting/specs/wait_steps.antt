pub mod WaitStep
