-- The order and a node's list.
pub mod Chains
pub mod OrderIsDecided
pub mod InOrder
pub mod OneEntryACall
pub mod StatesAndPlaces
pub mod PicksBefore
pub mod OwnEntries
pub mod CallsAndCells
pub mod Entering
pub mod ActiveEdges
