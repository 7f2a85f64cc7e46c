mod Lists
pub mod EntryText
mod Members
mod Rising
