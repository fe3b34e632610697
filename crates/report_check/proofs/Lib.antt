pub mod Comparing
pub mod Taking
pub mod Judging
pub mod Numbering
mod Running
mod Bytes
