pub mod formers
pub mod Paths
pub mod Digests
pub mod Nets
pub mod Trees
pub mod Values
