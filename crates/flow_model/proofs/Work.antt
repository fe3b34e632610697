-- Work in progress stays kept.
pub mod OnlyLaterCallsOpen
pub mod StillWorking
pub mod WorkAtOneNode
pub mod FoundStays
pub mod AfterEachStep
