mod Asked
mod Told
