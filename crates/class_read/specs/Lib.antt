pub mod Stands
pub mod Targets
pub mod Entered
pub mod ClassFiles
pub mod Twice
pub mod Limits
pub mod Loading
