pub mod Starts
pub mod Beginnings
pub mod Wanting
pub mod Frames
