mod Names
mod Ordered
mod Rest
mod Taken
mod Told
mod Whole
