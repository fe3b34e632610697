-- The opening state.
pub mod OpeningLists
pub mod OpeningIsLawful
