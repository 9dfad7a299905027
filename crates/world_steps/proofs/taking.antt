mod Left
mod Read
mod Noted
mod Heard
mod Taken
