pub mod Cmac
pub mod inner
