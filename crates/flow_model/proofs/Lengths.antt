-- How long histories are.
pub mod ListWorth
pub mod CallWorth
pub mod WorkDone
pub mod WorkIsBounded
pub mod SameWork
pub mod EdgesAreWork
pub mod WorkRises
pub mod WorthFalls
pub mod HistoriesAreBounded
pub mod FewInputs
