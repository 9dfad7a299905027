mod Passing
mod Written
mod Coming
