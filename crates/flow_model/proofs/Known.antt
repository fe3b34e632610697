-- What code relies on.
pub mod CallsInOrder
pub mod SlotsAndGathered
pub mod AfterEachStep
pub mod PairsNameNodes
pub mod Bounds
pub mod HistoriesHaveBounds
pub mod OpenNodesDecide
pub mod ListsAnswer
pub mod OrderTakes
pub mod RoomForEdges
