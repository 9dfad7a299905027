pub mod owed_records
pub mod rulings
pub mod reserving
pub mod Plans
pub mod logon_steps
pub mod preparing
