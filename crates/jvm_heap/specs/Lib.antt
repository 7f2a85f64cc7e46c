pub mod Operands
pub mod Objects
pub mod Heaps
pub mod Contents
pub mod Changes
pub mod Renaming
