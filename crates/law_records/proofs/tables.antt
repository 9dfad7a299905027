mod Begins
mod Due
mod Version
