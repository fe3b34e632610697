-- Calls among others.
pub mod CallsAreLeft
pub mod FirstOpenStays
pub mod EvaluationsStay
pub mod CallersFindTheirCalls
pub mod ListsUnderTheirKeys
