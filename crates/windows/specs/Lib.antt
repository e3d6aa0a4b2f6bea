pub mod Euclid
pub mod Windows
