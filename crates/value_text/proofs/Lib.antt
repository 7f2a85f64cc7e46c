pub mod CompactJson
mod Decoding
mod Shorts
pub mod Kept
pub mod PathText
pub mod Stored
mod Slashed
