-- Changes stay spread.
pub mod AfterOtherSteps
pub mod AfterEachStep
