pub mod Told
pub mod Worked
