pub mod Kept
pub mod Order
pub mod Sets
pub mod Slots
