mod Left
mod Said
mod Asked
mod Pushed
