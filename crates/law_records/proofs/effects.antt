mod Counts
mod Ends
