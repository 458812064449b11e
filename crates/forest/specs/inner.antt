pub mod Climbing
pub mod Nodes
pub mod Ordered
pub mod Scan
