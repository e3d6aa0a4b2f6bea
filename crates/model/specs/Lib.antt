pub mod Faults
pub mod Ranges
pub mod Rankings
pub mod Results
pub mod TaskSets
pub mod Laws
