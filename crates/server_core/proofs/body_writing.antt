mod Cases
mod Counts
