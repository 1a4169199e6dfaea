pub mod Limits
pub mod Header
pub mod Freq
pub mod Signal
pub mod Meta
pub mod Path
