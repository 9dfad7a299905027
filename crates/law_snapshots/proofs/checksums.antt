mod Changes
mod Breaks
