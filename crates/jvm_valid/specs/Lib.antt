pub mod Values
pub mod Heaps
pub mod Sharing
pub mod Waiting
pub mod Frames
pub mod Valid
pub mod Laws
