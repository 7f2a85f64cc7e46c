pub mod Spelled
pub mod Pathways
pub mod Ways
