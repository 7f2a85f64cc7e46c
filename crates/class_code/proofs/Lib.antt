pub mod Codes
pub mod DescriptorLemmas
pub mod Flagged
pub mod SiteLemmas
pub mod TextsTold
pub mod Uses
pub mod WantsTold
