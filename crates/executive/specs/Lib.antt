pub mod Batches
pub mod Changes
pub mod Executives
pub mod Questions
pub mod Slots
pub mod Views
pub mod Printed
