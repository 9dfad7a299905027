mod Fit
mod Step
