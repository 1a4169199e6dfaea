pub mod Edited
pub mod Bits
pub mod Items
pub mod Several
pub mod Demand
