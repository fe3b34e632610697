-- Numbers, lists and sets.
pub mod AnyAndAll
pub mod Counting
pub mod Sets
pub mod Pigeons
pub mod Sums
