pub mod LetterLemmas
pub mod Stacked
pub mod Handled
pub mod Laid
pub mod Tried
