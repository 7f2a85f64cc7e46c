pub mod Effects
pub mod Operands
