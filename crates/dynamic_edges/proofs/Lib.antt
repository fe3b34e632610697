pub mod Cells
pub mod Removed
pub mod EdgeRoom
pub mod Discovers
