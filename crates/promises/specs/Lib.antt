pub mod Said
pub mod Limits
