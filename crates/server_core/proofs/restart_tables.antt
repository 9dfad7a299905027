mod OfFold
mod OfBase
mod Sessions
mod Behind
