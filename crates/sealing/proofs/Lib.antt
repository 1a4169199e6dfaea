pub mod Laws
pub mod Clean
pub mod Steps
pub mod Fixed
