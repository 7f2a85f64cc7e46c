pub mod Spelling
pub mod Found
pub mod Searching
pub mod Parsing
