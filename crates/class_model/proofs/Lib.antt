pub mod UnitLemmas
pub mod TextLemmas
pub mod NameOfClass
pub mod ProgramLemmas
pub mod Dimensions
pub mod Parameters
pub mod ClassParts
