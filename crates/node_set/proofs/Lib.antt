pub mod BitLemmas
pub mod Searches
pub mod Summaries
pub mod Ranges
pub mod Nodes
pub mod Kept
