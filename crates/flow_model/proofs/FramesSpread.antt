-- Frames stay spread.
pub mod AfterOtherSteps
pub mod AfterFrame
pub mod NewFrames
pub mod AfterDiscover
pub mod AfterDones
pub mod AfterCollect
pub mod AfterEachStep
