pub mod Wording
pub mod Cases
pub mod Edges
