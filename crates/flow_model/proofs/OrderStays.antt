-- The order, the lists, versions, sets and room stay.
pub mod PartsOfStepsKeepOrder
pub mod AfterEachStep
pub mod NoFrameBeforeDones
pub mod EntriesAndRoom
pub mod OpenNodesHaveFrames
pub mod VersionsAndLengths
pub mod SetsAreSets
pub mod FullListsAreCollected
pub mod LooksAreFew
