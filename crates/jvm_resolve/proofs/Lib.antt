pub mod Dimensions
pub mod Ends
