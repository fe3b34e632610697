pub mod Ends
pub mod Looks
pub mod Skips
pub mod Gathers
pub mod Puts
pub mod Resolves
pub mod Marks
