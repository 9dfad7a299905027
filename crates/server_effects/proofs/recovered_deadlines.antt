mod Able
mod Ready
mod Room
mod Same
