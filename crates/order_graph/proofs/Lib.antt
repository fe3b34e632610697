pub mod Closure
pub mod KeptLemmas
pub mod Members
pub mod Reaching
pub mod SlotLemmas
