pub mod Ascii
pub mod Dump
pub mod inner
