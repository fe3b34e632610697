-- Ended calls stay the one-thread machine's.
pub mod PicksAreCovered
pub mod OneCallIsOneStep
pub mod WhoEndsIsFirst
pub mod AfterEnd
pub mod AfterEachStep
