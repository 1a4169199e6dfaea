pub mod Number
pub mod Part
pub mod Lay
pub mod Hex
