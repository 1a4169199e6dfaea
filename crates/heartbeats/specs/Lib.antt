pub mod Heartbeat
pub mod Paths
pub mod inner
