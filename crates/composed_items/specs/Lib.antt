pub mod Composed
pub mod One
pub mod inner
