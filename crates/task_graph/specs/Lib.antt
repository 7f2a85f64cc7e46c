pub mod PostOrders
pub mod Returning
pub mod TaskGraphs
pub mod Plans
pub mod GraphFaults
pub mod Rankings
