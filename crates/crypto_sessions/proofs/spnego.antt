mod Again
mod Lengths
mod Mechanisms
mod Spelled
mod Writable
