pub mod Open
pub mod Seal
pub mod Mesh
