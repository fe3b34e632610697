pub mod Lines
pub mod Right
pub mod Runs
pub mod Differing
pub mod Standing
pub mod Stopping
pub mod Verdicts
