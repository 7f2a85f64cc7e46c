pub mod Rising
pub mod Below
pub mod NetLemmas
pub mod DigestLemmas
pub mod TreeLemmas
