pub mod piece_bytes
pub mod record_bytes
pub mod record_bodies
