mod Entered
mod Growing
mod Adding
