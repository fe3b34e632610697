-- Runs, and which nodes react.
pub mod WhereRunsBegin
pub mod RunsThatHaveEnded
pub mod WhoReacts
pub mod WhoReactsAfterSteps
