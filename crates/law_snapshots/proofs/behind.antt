mod Borrowed
mod Guards
mod Steps
mod Stands
