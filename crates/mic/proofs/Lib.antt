pub mod Fixed
pub mod Absorbing
pub mod Bytes
pub mod Steps
