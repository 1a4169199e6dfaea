pub mod Number
pub mod Part
pub mod Run
pub mod Lay
pub mod Hex
