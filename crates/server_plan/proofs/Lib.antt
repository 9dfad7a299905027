mod Early
mod Lesser
mod Planned
