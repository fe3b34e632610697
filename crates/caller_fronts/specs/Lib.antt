pub mod Fronts
pub mod Jobs
pub mod Keys
pub mod Tokens
