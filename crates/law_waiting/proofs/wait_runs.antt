mod Counting
mod Lists
mod Trying
mod Beginning
mod Coming
mod Turning
mod Running
