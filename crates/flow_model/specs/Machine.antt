-- The machine of interleaved calls: its state, its steps, what comes next for a call, histories and schedules, and examples. This is
-- what has to be believed.
pub mod Lists
pub mod Sets
pub mod State
pub mod Order
pub mod Words
pub mod Changes
pub mod Steps
pub mod Keys
pub mod Next
pub mod Histories
pub mod Schedules
pub mod Examples
