pub mod Faults
pub mod Loop
pub mod Places
pub mod Written
pub mod Forms
pub mod EqualTexts
pub mod SeenMembers
