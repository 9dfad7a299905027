mod Arms
mod Begins
mod Whole
