pub mod Framed
pub mod Begins
