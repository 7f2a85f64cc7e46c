pub mod Codes
pub mod Letters
pub mod Changes
pub mod Machines
pub mod Leaving
pub mod Onwards
