pub mod Field
pub mod Aes
