pub mod Annotations
pub mod Declarations
pub mod Reading
pub mod Sites
