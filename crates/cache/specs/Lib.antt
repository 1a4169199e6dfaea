pub mod Cache
pub mod inner
