pub mod Which
pub mod Trip
pub mod Again
pub mod Same
pub mod Even
pub mod Back
