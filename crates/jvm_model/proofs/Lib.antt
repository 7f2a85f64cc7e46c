pub mod Alike
pub mod Further
