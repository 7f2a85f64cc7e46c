pub mod Told
pub mod Changed
pub mod Files
mod Listing
mod Parts
mod Putting
pub mod Fronts
