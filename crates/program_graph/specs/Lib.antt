pub mod Tasks
pub mod Methods
pub mod Results
pub mod Rows
pub mod Doubles
pub mod Outcomes
pub mod Reading
