pub mod Mic
pub mod inner
