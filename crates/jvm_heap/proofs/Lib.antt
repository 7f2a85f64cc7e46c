pub mod Places
pub mod Renamed
