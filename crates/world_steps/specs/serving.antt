pub mod Drawn
pub mod Said
pub mod Noted
pub mod Fronted
pub mod Heard
pub mod Answered
