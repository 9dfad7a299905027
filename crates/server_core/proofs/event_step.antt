mod Again
mod Beyond
mod Carried
mod Committed
mod Early
mod Lacking
mod Moments
mod Out
mod Refused
pub mod Said
mod Without
