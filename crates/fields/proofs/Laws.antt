pub mod Bytes
pub mod Header
pub mod Signal
pub mod Freq
pub mod Meta
pub mod Path
pub mod Limits
