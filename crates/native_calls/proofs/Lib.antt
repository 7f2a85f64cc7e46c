pub mod Staying
pub mod Alike
