mod Refused
mod Drawn
mod Standing
mod Opened
