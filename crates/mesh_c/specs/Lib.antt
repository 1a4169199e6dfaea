pub mod Face
pub mod inner
