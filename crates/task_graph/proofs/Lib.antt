pub mod Walking
pub mod Ending
pub mod Choosing
pub mod Ranking
