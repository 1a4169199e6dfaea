pub mod Laws
pub mod Fixed
pub mod Examples
