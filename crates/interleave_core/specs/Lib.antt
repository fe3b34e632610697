pub mod Beginning
pub mod Choosers
pub mod Ending
pub mod Opening
pub mod Rooms
pub mod Runs
pub mod Whole
