pub mod Recalling
pub mod Replying
pub mod Signing
pub mod Accepting
pub mod Fine
pub mod Making
