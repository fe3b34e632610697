pub mod Begun
pub mod Turns
pub mod Tokens
pub mod Making
pub mod Finishing
pub mod Seating
mod Crossing
pub mod Whole
