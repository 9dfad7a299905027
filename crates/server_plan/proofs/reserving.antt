mod Alters
mod Differs
mod Kept
mod Made
mod OpenRows
mod Plain
mod Requests
mod Steps
