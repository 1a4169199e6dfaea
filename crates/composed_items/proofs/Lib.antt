pub mod Faults
pub mod Fixed
pub mod Laws
pub mod Again
pub mod Alone
pub mod Loops
pub mod Runs
