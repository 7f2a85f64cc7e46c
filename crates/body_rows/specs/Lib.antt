pub mod Samples
pub mod Numbers
pub mod Objects
pub mod Calls
