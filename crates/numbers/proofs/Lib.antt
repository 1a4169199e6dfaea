pub mod Laws
pub mod Again
pub mod Steps
pub mod Fixed
