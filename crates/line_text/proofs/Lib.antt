pub mod Spelled
pub mod Characters
pub mod OneLine
pub mod Plain
