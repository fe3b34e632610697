pub mod Count
pub mod Bytes
pub mod States
pub mod Memory
pub mod Adapted
