pub mod untampered
pub mod accepted
pub mod purses
pub mod sealed
pub mod binding_room
pub mod logons
