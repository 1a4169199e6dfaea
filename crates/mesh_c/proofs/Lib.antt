pub mod Added
pub mod Fixed
pub mod Known
