pub mod Short
pub mod Texts
pub mod Decoded
pub mod Stores
