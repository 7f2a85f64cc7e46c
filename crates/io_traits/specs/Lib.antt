pub mod Causes
pub mod Files
pub mod Places
pub mod Planned
pub mod Streams
