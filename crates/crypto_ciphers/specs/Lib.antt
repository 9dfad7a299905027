pub mod mac_kdf
pub mod aes_block
pub mod aes_modes
