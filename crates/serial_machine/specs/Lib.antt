pub mod Marking
pub mod Reading
pub mod State
pub mod Between
pub mod Progress
pub mod Running
pub mod SerialOrder
