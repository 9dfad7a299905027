mod Own
mod Befell
mod Single
