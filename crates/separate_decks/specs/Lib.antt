pub mod Separate
pub mod Calls
pub mod Draws
pub mod Workload
