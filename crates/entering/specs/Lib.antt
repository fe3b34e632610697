pub mod Entering
pub mod Marking
