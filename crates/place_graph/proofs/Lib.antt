pub mod Covered
pub mod Marks
pub mod Searched
pub mod Settled
pub mod Stuck
pub mod Turned
pub mod Walks
