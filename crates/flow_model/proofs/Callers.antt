-- Callers and their calls.
pub mod OnlyBeginningsAdd
pub mod CallersHaveTheirCalls
pub mod StepsComeInTime
pub mod FinishedRunsMerge
