mod Comparing
mod Places
mod Denials
mod Walking
mod Masks
