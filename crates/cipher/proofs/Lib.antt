pub mod Columns
pub mod Table
pub mod Turned
pub mod Bridge
pub mod Laws
pub mod Fixed
