pub mod Input
pub mod Schedule
pub mod Replaying
pub mod Faults
