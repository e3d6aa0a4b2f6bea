pub mod Deadlines
pub mod Hyperperiods
pub mod Offsets
pub mod Places
pub mod Plans
