mod Asked
mod Began
mod Lacking
mod Offered
mod Read
mod Turned
