mod Kept
mod There
mod Unsaid
