pub mod Cutting
pub mod FieldReader
pub mod Grammar
pub mod Reading
