pub mod There
pub mod Named
