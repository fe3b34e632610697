-- Histories.
pub mod Moves
pub mod RepliesAreRight
pub mod LogsAreLegal
pub mod GatheredValues
pub mod ValuesBefore
pub mod FoundUntilDone
pub mod EvaluatedOnce
pub mod LastValues
