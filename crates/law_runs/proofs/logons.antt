mod Lengths
mod Begun
mod Shown
mod Logged
