pub mod NameOrder
pub mod Places
pub mod Chains
pub mod Names
pub mod Declared
pub mod Members
pub mod Drawn
pub mod Refusals
