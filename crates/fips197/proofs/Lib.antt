pub mod Field
pub mod Table
pub mod Bytes
pub mod Fixed
