-- Slots for versions.
pub mod PairsBySlot
pub mod TestsBySlot
pub mod LeastIsFirst
