pub mod Closing
pub mod Graphs
pub mod Orders
pub mod Searches
pub mod Told
pub mod Turning
