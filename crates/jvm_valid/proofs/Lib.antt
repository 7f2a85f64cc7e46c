pub mod Slots
pub mod Methods
pub mod Begins
pub mod Growing
pub mod Placing
pub mod Arguments
pub mod Bodies
