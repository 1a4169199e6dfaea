pub mod Laws
pub mod Clean
pub mod Loop
pub mod Fixed
