pub mod Columns
mod Ended
mod Left
mod Opens
mod Picked
mod Pieces
mod Turns
