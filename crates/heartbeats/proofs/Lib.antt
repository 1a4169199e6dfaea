pub mod Steps
pub mod Again
pub mod Counted
pub mod Laws
pub mod Runs
pub mod Loops
pub mod Fixed
