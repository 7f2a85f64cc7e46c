pub mod First
pub mod Searching
pub mod Digits
pub mod Differences
pub mod Spelled
pub mod Thrown
pub mod Named
