pub mod Summary
pub mod Nodes
