pub mod Faults
pub mod Writing
pub mod TextForms
pub mod TextNumbers
pub mod SeenMembers
