mod Again
mod Codes
mod Fits
mod Letters
mod Logons
mod Reading
