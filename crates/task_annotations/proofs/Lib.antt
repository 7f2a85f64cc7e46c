pub mod Parameters
pub mod Units
