mod Equations
mod Turning
mod Tested
mod Counted
mod Pushed
mod Rounds
