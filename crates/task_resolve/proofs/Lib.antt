pub mod NumberLaws
pub mod NameLaws
pub mod GroupLaws
pub mod ListLaws
pub mod MarkLaws
pub mod SelectLaws
pub mod ChosenLaws
