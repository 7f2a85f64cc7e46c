pub mod Names
pub mod Handlers
pub mod Stacks
pub mod Frames
pub mod Moves
pub mod Changes
