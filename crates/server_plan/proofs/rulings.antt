mod Quiet
mod Ruled
