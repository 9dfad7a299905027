mod Ascending
mod Orders
mod Spelled
mod Anew
mod Moments
mod Held
