-- All together.
pub mod LawfulStays
pub mod Points
pub mod WorkIsAllowed
pub mod NextIsAllowed
pub mod NeverStuck
pub mod WhyNotEnded
